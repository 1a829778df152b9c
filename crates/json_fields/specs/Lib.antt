pub mod Values
pub mod Names
pub mod Paths
pub mod Misfits
pub mod Words
