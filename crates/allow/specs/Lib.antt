pub mod Steps
pub mod Allowed
