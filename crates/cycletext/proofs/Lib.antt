pub mod Laws
pub mod Round
pub mod Reading
pub mod Longest
pub mod Theorem
