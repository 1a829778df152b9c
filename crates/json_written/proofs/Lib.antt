pub mod WriterLaws
pub mod PlainLaws
pub mod PlainText
pub mod ClearText
