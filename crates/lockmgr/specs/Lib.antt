pub mod Calls
pub mod Run
pub mod Drain
pub mod Ending
pub mod Parts
pub mod History
pub mod PlainRanks
