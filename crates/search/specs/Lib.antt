pub mod Machine
pub mod Going
pub mod Masks
