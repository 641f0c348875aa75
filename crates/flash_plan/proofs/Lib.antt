pub mod Accepted
pub mod Marks
pub mod Numbers
pub mod Tasks
pub mod Units
pub mod Verdicts
pub mod Writes
