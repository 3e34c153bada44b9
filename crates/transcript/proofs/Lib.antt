pub mod Lines
pub mod Playing
pub mod Theorem
