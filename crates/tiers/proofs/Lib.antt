pub mod Small
pub mod Chosen
pub mod Laws
pub mod Rows
pub mod Coded
