pub mod Examples
pub mod Borne
pub mod Own
pub mod Calls
pub mod Noted
pub mod Early
pub mod Around
