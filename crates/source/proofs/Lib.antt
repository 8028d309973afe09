pub mod Lent
pub mod Whole
pub mod Only
