pub mod Ended
pub mod Theorem
