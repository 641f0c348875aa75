pub mod Ends
pub mod Forms
pub mod Keeps
pub mod Leads
pub mod Wholes
pub mod Spotting
