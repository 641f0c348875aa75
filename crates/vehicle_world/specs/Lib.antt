pub mod Feeding
pub mod Holding
pub mod Running
pub mod Saving
pub mod Shapes
pub mod States
pub mod Worlds
