pub mod Capacity
pub mod Snapshot
pub mod Weights
pub mod Phases
pub mod Statement
