pub mod Bytes
pub mod Shape
