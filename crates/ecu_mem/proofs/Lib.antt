pub mod Indexing
pub mod Joining
pub mod Ranges
pub mod Steps
pub mod Telling
pub mod Walk
pub mod Wholes
