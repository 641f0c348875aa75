pub mod Decodes
pub mod Found
pub mod Judged
pub mod Numbers
pub mod Onward
mod Rows
pub mod Written
