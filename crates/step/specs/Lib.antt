pub mod Step
pub mod Verb
pub mod Told
pub mod Parts
pub mod Frame
