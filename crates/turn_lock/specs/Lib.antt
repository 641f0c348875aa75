pub mod Lists
pub mod PassState
pub mod Seats
pub mod TurnRule
pub mod Steps
