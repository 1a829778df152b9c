pub mod Requests
pub mod Types
pub mod Shapes
pub mod Faults
