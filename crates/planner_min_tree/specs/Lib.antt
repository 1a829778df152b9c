pub mod Points
pub mod Chunks
pub mod Blocks
pub mod Marks
pub mod Plans
pub mod Nears
pub mod Stands
