pub mod Fields
pub mod Keys
pub mod Listed
pub mod Lists
pub mod Orders
pub mod Promises
pub mod Sources
