pub mod Judging
pub mod Form
pub mod Draining
pub mod PlainRanks
