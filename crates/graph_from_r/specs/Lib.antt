pub mod Stretches
pub mod Sizes
pub mod Properties
pub mod Places
pub mod Nodes
pub mod Names
pub mod Vertices
pub mod Graphs
