pub mod Ends
pub mod Theirs
pub mod Verdicts
pub mod WordForms
pub mod Worked
