pub mod Counts
pub mod Due
pub mod Framewise
pub mod Held
pub mod Left
pub mod Lists
pub mod Ready
pub mod Remaining
