-- General laws: lists and functions, routes, entries, counts of messages, walks, seniority, stages.
pub mod Lists
pub mod Routes
pub mod Entries
pub mod Stages
pub mod Seniority
pub mod Counts
pub mod Walks
