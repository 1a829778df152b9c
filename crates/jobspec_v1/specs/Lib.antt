pub mod Faults
pub mod Requests
pub mod Tasks
pub mod Attributes
pub mod Forms
pub mod Jobspecs
pub mod Parts
