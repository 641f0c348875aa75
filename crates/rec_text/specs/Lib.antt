pub mod Cutting
pub mod Digits
pub mod Lanes
pub mod Lines
pub mod Putting
pub mod Reading
pub mod Runs
pub mod Spelling
