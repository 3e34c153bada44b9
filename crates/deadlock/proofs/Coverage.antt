-- Coverage is kept: whatever probe a session still needs is on its way. With no message left, no cycle is left.
pub mod Sums
pub mod AfterItem
pub mod KeptAtItem
pub mod AfterSession
pub mod KeptAtSession
pub mod KeptByCalls
pub mod DeclaredStays
pub mod NoCycleLeft
