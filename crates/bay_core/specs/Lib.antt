pub mod Core
pub mod Joint
pub mod Law
pub mod Legal
pub mod LinkLaws
pub mod Moves
pub mod Rows
pub mod Stops
