pub mod Area
pub mod Nexts
