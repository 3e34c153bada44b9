pub mod Entries
pub mod Sessions
pub mod Items
