pub mod Answer
pub mod Bytes
pub mod Table
pub mod File
pub mod Reading
pub mod Stepping
