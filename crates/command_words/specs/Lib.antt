pub mod Givens
pub mod Values
pub mod Taken
pub mod Commands
