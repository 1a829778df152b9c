pub mod OneHistory
pub mod Kept
