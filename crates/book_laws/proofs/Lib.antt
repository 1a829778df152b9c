pub mod Sums
pub mod Within
pub mod Totals
pub mod Adding
pub mod GroupedLaws
pub mod Closing
pub mod Views
pub mod Alike
