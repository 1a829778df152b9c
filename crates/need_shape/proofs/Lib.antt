pub mod Rows
pub mod KindLaws
pub mod ShapeLaws
pub mod ValidLaws
