pub mod Reading
pub mod Refusals
pub mod Record
pub mod SrecText
pub mod Writing
