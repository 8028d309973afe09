pub mod Sorts
pub mod Leading
pub mod Laws
pub mod Filling
