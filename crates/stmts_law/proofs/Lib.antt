pub mod Walks
pub mod Jumps
pub mod Faults
pub mod Acts
pub mod Counts
pub mod Nine
pub mod Numbers
pub mod Nodes
