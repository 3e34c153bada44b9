-- The count is kept: cycles closed are sessions rolled back, cycles that stand and sessions that leave.
pub mod StandingCycles
pub mod LeavingSessions
pub mod KeptAtSession
pub mod KeptAtItem
pub mod Kept
