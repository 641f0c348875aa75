pub mod ByteMap
pub mod Extents
pub mod Lowest
pub mod Place
pub mod Putting
pub mod Runs
pub mod Walks
