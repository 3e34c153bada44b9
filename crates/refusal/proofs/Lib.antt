pub mod Causes
pub mod Outcome
