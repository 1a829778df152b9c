pub mod Spans
pub mod Points
pub mod Free
pub mod Later
pub mod AnyNumbers
