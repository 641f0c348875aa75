pub mod Hexes
pub mod Images
pub mod Json
pub mod Lists
