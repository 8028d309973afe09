pub mod Own
pub mod Noted
