pub mod Crashed
pub mod Disks
pub mod Laws
pub mod Made
pub mod Replay
