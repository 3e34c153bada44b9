-- The clauses on probes are kept: whatever a probe tells is true.
pub mod PathsStay
pub mod KeptByWithdraw
pub mod PassedOn
pub mod KeptAtItem
pub mod ClosedPath
pub mod OthersStay
pub mod KeptByPlainSteps
pub mod KeptByAbortAndClean
