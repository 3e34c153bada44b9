-- The links are kept: every pair of a session and an item stays in one of the phases of the lock protocol.
pub mod NeutralMessages
pub mod KeptAtItem
pub mod KeptAtSession
pub mod Unnamed
pub mod Kept
pub mod EachItemKept
