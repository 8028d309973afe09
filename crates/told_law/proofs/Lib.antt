pub mod Notes
pub mod Told
pub mod Text
pub mod Entered
pub mod Declared
pub mod Whole
