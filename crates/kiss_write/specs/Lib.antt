pub mod Held
pub mod Meaning
