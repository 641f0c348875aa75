pub mod Bytes
pub mod FileNames
pub mod Numbers
pub mod TaskNames
pub mod Trim
