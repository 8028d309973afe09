pub mod Touch
pub mod Order
pub mod Compound
pub mod Senses
pub mod Inside
pub mod Outermost
