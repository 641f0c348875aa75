pub mod Bounds
pub mod Inside
pub mod Steps
pub mod Wholes
