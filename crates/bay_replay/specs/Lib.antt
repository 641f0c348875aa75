pub mod Bytes
pub mod Held
pub mod Hears
pub mod Lending
pub mod Replays
pub mod Units
pub mod Verdict
