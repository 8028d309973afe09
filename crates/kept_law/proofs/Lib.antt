pub mod Everywhere
pub mod Words
pub mod Texts
pub mod Expanded
pub mod Written
pub mod Few
