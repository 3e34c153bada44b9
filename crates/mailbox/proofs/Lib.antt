pub use Rattle.entry.proofs.EntryLaws
pub mod Laws
mod Triples
mod Moves
pub mod Tests
