pub mod DigitLaws
pub mod EmptyGraph
pub mod Presents
