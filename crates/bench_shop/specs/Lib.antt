pub mod Benches
pub mod Deeds
pub mod Faults
pub mod Forms
pub mod Links
pub mod Pasts
pub mod Shops
