pub mod Numerals
pub mod Steps
pub mod Reading
pub mod Tokens
pub mod Words
pub mod Trees
pub mod Looks
pub mod Exact
pub mod Lexed
mod Growing
mod PlainRead
mod Contents
pub mod PlainSteps
mod PlainUtf8
mod Passed
mod Built
mod Agreeing
