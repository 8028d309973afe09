pub mod Frames
pub mod Operators
