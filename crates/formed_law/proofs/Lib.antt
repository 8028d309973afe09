pub mod Filled
pub mod Formed
