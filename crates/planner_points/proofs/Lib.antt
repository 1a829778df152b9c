pub mod Starts
pub mod Ends
pub mod Sames
pub mod Frees
pub mod Lasts
