pub mod Aim
pub mod Stays
