pub mod Walk
pub mod ViewLaws
pub mod NeedLists
pub mod MoreAvailable
pub mod Sizes
pub mod Live
