pub mod Layout
pub mod Decode
pub mod Looks
pub mod Fit
pub mod Good
pub mod Ready
