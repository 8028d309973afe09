pub mod Layout
pub mod Open
pub mod List
pub mod Meant
pub mod Put
pub mod Row
