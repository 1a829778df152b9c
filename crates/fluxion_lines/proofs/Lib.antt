pub mod LineLaws
pub mod CommandLaws
pub mod InputLaws
pub mod ScriptLaws
pub mod ClientLaws
pub mod ColumnLaws
pub mod OrderLaws
pub mod BarLaws
