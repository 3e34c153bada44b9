pub mod Formula
pub mod Potential
pub mod Statement
