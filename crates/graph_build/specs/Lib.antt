pub mod Orders
pub mod Faults
pub mod Raw
pub mod Arranged
pub mod Checks
pub mod Table
pub mod Keys
pub mod OwnList
