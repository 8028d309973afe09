pub mod Places
pub mod Compile
pub mod Files
