pub mod Names
pub mod Filters
pub mod Demands
pub mod Shorts
pub mod Amples
