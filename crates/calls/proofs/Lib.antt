pub mod Handing
pub mod Entering
