pub mod Crc
pub mod Change
