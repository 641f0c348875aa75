pub mod Growing
pub mod Openings
pub mod Crew
