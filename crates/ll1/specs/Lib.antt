pub mod Grammar
pub mod Values
pub mod Goes
pub mod Rows
