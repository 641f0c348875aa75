pub mod Acting
pub mod Counting
pub mod Feeding
pub mod Fronts
pub mod Gates
pub mod Handling
pub mod Saving
pub mod Troubles
