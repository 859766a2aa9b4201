pub mod Following
pub mod Advance
