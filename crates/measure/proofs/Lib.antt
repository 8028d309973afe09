pub mod States
pub mod Laws
pub mod Lists
pub mod Calling
pub mod Outer
