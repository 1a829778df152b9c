pub mod RowLaws
pub mod KeyLaws
pub mod TableLaws
