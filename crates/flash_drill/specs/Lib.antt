pub mod Calm
pub mod Drilling
pub mod Ending
pub mod Own
pub mod Words
