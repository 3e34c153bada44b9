pub mod Statement
pub mod Drains
pub mod Progress
pub mod Reuse
