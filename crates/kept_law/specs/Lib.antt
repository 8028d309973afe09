pub mod Kept
pub mod Written
