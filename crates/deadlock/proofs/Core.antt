-- Links, victims and probes together: the steps that concern more than one of them, and every admitted call.
pub mod KeptByRequestAndRelease
pub mod KeptAtSession
pub mod Kept
