pub mod Ends
pub mod Left
pub mod Onward
pub mod Prepared
pub mod Session
pub mod Spots
pub mod Whole
