pub mod Laws
pub mod Canon
