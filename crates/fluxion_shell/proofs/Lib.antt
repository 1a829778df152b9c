pub mod Output
pub mod Shown
pub mod Summaries
