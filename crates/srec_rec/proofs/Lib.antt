pub mod Records
pub mod Lines
pub mod Whole
pub mod Text
pub mod Round
pub mod Refused
