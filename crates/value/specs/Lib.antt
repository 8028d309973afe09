pub mod Flat
pub mod Leaf
pub mod Row
pub mod Read
