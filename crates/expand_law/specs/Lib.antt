pub mod Accounts
pub mod Walks
pub mod Faults
pub mod Sizes
