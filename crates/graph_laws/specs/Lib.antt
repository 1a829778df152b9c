pub mod ContainmentLaws
