pub mod Accepting
pub mod Canonical
pub mod Cycles
pub mod Drafts
pub mod Numbering
pub mod Outcomes
pub mod Plan
pub mod Refusals
