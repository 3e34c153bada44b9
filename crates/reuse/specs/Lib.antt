pub mod Ended
pub mod Statement
