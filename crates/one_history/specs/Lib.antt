pub mod Together
pub mod Dealt
