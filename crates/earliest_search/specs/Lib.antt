pub mod Starts
pub mod Tried
