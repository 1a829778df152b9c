pub mod Counts
pub mod Streams
pub mod Stores
pub mod Memory
pub use Rattle.std.specs.Io
