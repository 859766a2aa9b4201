pub mod Spread
pub mod Taken
