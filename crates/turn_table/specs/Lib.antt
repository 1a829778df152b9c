pub mod Positions
pub mod Rule
pub mod Plays
pub mod Seats
pub mod Turns
