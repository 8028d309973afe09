pub mod Kinds
pub mod Runs
pub mod Meaning
pub mod Met
