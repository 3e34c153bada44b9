pub mod Input
pub mod Transcript
pub mod Claims
