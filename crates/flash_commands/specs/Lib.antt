pub mod Outcomes
pub mod Printing
pub mod Running
pub mod Words
