pub mod Append
pub mod File
pub mod Later
pub mod Make
pub mod Move
pub mod Read
pub mod Tables
pub mod Tested
