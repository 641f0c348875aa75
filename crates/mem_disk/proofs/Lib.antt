pub mod Calls
pub mod Crashes
pub mod Replays
