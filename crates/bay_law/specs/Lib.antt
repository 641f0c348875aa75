pub mod Bay
pub mod Closed
pub mod Device
pub mod Driven
pub mod Sentence
