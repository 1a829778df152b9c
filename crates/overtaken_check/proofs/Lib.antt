pub mod Walks
pub mod Reasons
pub mod Counts
