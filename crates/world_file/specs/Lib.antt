pub mod Said
pub mod Saves
