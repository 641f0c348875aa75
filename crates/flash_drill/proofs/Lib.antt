pub mod Calm
pub mod Drilled
pub mod Ends
pub mod Forms
pub mod Quiet
pub mod Starting
