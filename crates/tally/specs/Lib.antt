pub mod Tally
pub mod Holds
