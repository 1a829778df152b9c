pub mod Scans
pub mod Costs
