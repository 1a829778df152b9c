pub mod TieLaws
pub mod CostLaws
pub mod BookLaws
pub mod ShareLaws
pub mod ViewLaws
pub mod RowLaws
