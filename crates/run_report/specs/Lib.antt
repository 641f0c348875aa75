pub mod Checking
pub mod Forms
pub mod Imaging
pub mod OneLine
pub mod Recorded
pub mod Refusing
pub mod Report
