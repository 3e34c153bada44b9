pub mod Lists
pub mod Laws
pub mod Reached
pub mod Members
pub mod Leaders
pub mod Changes
