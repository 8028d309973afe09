pub mod Tables
pub mod Starts
pub mod Codes
