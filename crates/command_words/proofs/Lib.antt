pub mod Options
pub mod Rows
pub mod Steps
pub mod Runs
pub mod Taken
pub mod FormLaws
