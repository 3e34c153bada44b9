pub mod Oldest
pub mod Parts
