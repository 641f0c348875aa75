pub mod History
pub mod Memory
pub mod Outside
pub mod States
