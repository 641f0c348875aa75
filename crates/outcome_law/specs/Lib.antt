pub mod Causes
pub mod Counting
pub mod Keeping
pub mod Law
pub mod LinkCounting
pub mod OutcomeCounting
pub mod Outcomes
pub mod Rising
