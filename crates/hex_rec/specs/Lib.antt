pub mod Base
pub mod HexText
pub mod Reading
pub mod Refusals
pub mod Record
pub mod Writing
