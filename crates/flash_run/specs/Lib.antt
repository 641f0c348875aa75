pub mod Ending
pub mod Group
pub mod Need
pub mod Notes
pub mod Run
pub mod Waiting
