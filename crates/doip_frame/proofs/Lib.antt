pub mod Again
pub mod Cuts
pub mod Feeds
pub mod Looks
pub mod Payloads
pub mod Pieces
mod Rows
pub mod Streams
