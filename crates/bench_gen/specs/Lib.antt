pub mod Catalogue
pub mod Elements
pub mod Files
pub mod Order
pub mod Sizes
pub mod Vehicle
