pub mod Follows
pub mod Happened
pub mod Kinds
pub mod Looked
pub mod Rows
pub mod Stopped
