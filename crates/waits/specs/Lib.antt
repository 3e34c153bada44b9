pub mod Waits
pub mod Walk
pub mod Cycle
pub mod OnTable
pub mod Places
