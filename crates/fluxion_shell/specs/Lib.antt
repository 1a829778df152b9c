pub mod Outputs
pub mod PlayedText
pub mod Causes
pub mod Runs
pub mod Laws
pub mod Ends
