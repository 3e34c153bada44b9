pub mod Reopening
pub mod Parts
