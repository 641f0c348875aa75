pub mod Benches
pub mod Calling
pub mod Links
pub mod Listed
pub mod Replays
