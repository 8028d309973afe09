pub mod Room
pub mod Hands
pub mod Settles
pub mod Enters
