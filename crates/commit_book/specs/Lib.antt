pub mod Books
pub mod Submits
