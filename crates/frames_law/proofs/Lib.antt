pub mod Frames
pub mod Single
pub mod Apart
