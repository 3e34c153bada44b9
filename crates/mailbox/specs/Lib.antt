pub use Rattle.entry.specs.Entry
pub mod Layout
