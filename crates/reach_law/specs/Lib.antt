pub mod Machine
pub mod Count
pub mod Numbering
pub mod Search
