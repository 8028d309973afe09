pub mod Words
pub mod Grammar
pub mod Names
pub mod Jumps
