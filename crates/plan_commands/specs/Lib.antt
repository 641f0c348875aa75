pub mod Answering
pub mod Looking
pub mod Serving
pub mod Words
