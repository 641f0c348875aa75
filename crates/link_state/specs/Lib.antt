pub mod Inboxes
pub mod Laws
pub mod State
