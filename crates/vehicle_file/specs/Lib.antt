pub mod Fields
pub mod Files
pub mod Keys
pub mod Troubles
pub mod Units
