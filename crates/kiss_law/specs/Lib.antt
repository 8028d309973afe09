pub mod Text
pub mod Kiss
pub mod Fields
pub mod Forms
