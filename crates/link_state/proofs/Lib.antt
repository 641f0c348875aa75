pub mod Arriving
pub mod Frames
pub mod Inboxes
pub mod Keeping
pub mod Pieces
