pub mod Counts
pub mod Prefixes
pub mod Seating
pub mod Passes
pub mod Tickets
pub mod Holding
pub mod States
