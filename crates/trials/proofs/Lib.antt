pub mod Edges
pub mod Levels
pub mod Outcomes
pub mod Through
pub mod Trials
