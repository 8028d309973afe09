pub mod Sizes
pub mod Worst
