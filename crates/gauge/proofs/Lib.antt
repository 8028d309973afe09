pub mod Acts
pub mod Laws
