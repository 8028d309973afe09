pub mod Laws
pub mod Embed
pub mod Join
pub mod Steps
pub mod Comes
pub mod Unseen
