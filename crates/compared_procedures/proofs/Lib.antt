pub mod Expanded
pub mod Refused
pub mod Inside
pub mod Passing
