pub mod Codes
pub mod Along
pub mod Answers
pub mod Turning
pub mod Only
