pub mod Entry
pub mod Cells
