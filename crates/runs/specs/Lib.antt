pub mod Run
pub mod Buffer
pub mod Seen
