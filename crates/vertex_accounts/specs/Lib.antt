pub mod Prefixes
pub mod Capacities
pub mod Measures
pub mod Quantities
pub mod Costs
pub mod Moments
pub mod Counts
pub mod Books
