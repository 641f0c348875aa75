pub mod Calling
pub mod Links
pub mod Passing
