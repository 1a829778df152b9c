pub mod Amounts
pub mod TotalLaws
pub mod Grouped
