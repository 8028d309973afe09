pub mod Ends
pub mod Only
pub mod Calls
