pub mod StartLaws
pub mod TriedLaws
