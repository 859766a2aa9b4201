pub mod FromFn
pub mod Passes
pub mod Rows
