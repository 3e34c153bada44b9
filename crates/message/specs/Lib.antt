pub mod Limits
pub mod Kind
pub mod Outbox
