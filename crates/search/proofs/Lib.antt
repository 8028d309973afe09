pub mod States
pub mod Turns
pub mod Masked
pub mod Holds
