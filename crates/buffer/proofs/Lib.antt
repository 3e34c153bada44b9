pub mod Laws
pub mod Padded
