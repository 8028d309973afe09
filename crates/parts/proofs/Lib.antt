pub mod Small
pub mod Beside
