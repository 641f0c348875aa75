pub mod Sizes
pub mod Readable
pub mod Back
