pub mod Answered
pub mod Code
pub mod Calls
