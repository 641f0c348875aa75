pub mod Forms
pub mod Keys
pub mod Objects
pub mod Ranges
pub mod Texts
pub mod Troubles
pub mod Units
