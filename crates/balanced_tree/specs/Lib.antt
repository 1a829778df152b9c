pub mod Sides
pub mod Edits
pub mod Trees
