pub mod Readable
pub mod Deciding
