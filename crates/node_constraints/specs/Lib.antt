pub mod Truth
pub mod Faults
pub mod Bars
pub mod Narrowing
pub mod Reading
pub mod Ranked
pub mod Listed
