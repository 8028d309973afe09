pub mod Choose
pub mod Comes
pub mod Strengths
