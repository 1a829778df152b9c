pub mod Sums
pub mod Demanded
