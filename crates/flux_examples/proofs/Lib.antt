pub mod TwoNodes
pub mod Slots
pub mod Jobs
