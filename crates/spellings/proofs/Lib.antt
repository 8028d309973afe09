pub mod Parts
pub mod Same
pub mod Tested
pub mod Entries
pub mod Chain
pub mod Fitting
