pub mod Texts
pub mod Tokens
