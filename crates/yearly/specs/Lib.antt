pub mod Input
pub mod Rate
pub mod Printed
pub mod Parts
pub mod Claims
