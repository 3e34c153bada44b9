-- The clauses on victims are kept: each lies on a cycle that stands, as its only victim, with one clean on it.
pub mod OneOnCycle
pub mod CyclesStay
pub mod KeptAtItem
pub mod KeptByWithdraw
pub mod EdgesStay
pub mod KeptByAbortAndClean
