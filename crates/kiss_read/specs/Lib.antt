pub mod Cursor
pub mod Meaning
