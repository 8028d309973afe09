pub mod Sum
pub mod Beside
