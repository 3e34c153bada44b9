pub mod Record
pub mod NextHolder
pub mod Rules
