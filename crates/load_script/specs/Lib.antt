pub mod Draws
pub mod Jobspecs
pub mod Lines
pub mod Vertices
pub mod Counts
pub mod Tallied
pub mod Laws
