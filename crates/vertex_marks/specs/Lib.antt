pub mod Down
pub mod Marked
