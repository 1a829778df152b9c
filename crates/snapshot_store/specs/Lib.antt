pub mod Parts
pub mod Heights
pub mod Places
pub mod Trees
pub mod Lists
