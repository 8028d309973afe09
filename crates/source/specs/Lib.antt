pub mod Settled
pub mod Area
pub mod Says
