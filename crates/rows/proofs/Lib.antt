pub mod Changes
pub mod Rows
pub mod Nexts
