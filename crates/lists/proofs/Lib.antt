pub mod Tests
pub mod Laws
pub mod Searches
pub mod Orders
pub mod Ranges
