pub mod Least
pub mod Noted
pub mod Counted
pub mod Sizes
pub mod Written
pub mod Decoded
pub mod Placed
pub mod Fine
