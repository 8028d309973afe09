pub mod Operators
pub mod Walked
pub mod Body
