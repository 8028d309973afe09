pub mod Trees
pub mod Lists
pub mod Added
pub mod Declared
