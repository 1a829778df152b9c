pub mod Words
pub mod Reasons
pub mod Commands
pub mod Lines
pub mod Inputs
pub mod Scripts
pub mod Texts
pub mod Columns
