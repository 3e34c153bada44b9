pub mod Text
pub mod Reading
pub mod OnTable
pub mod Told
pub mod Parts
pub mod Statement
