pub mod Acting
pub mod Form
pub mod Frame
pub mod Verbs
