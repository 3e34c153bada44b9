pub mod EntryLaws
pub mod Cells
pub mod Cuts
