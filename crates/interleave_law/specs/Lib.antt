pub mod Laws
pub mod Machines
