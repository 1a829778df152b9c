pub mod Chains
pub mod MarkLaws
