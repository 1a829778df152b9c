pub mod Containment
pub mod Preorder
