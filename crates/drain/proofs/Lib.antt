pub mod Gaps
pub mod Oldest
