pub mod Parts
pub mod Serves
pub mod Whole
