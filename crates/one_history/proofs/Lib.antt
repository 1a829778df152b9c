pub mod Parts
pub mod Interleaved
pub mod Sessions
pub mod Crossing
