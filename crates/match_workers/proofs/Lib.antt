pub mod Lines
pub mod Gaining
