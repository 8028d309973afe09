pub mod Words
pub mod Aheads
pub mod Turns
pub mod Blocks
pub mod Short
pub mod Only
