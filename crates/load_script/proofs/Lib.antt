pub mod Texts
pub mod Tallies
pub mod Places
pub mod LoadGraph
pub mod Fine
pub mod Read
