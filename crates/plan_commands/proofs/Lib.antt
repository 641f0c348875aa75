pub mod Ends
pub mod Journals
pub mod Numbers
pub mod StatusEnds
