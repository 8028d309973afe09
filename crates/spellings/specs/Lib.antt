pub mod Spelled
pub mod Part
pub mod Search
