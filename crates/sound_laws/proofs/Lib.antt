pub mod Members
pub mod Had
pub mod Sounds
pub mod Legal
