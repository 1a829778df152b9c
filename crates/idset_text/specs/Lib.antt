pub mod Items
pub mod Numbers
pub mod Faults
pub mod Idsets
pub mod Hostlists
