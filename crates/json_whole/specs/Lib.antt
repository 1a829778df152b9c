pub mod Run
pub mod Plain
pub mod Values
pub mod Whole
pub mod Field
pub mod Forms
pub mod PlainTokens
pub mod Parts
