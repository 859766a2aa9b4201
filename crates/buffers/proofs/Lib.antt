pub mod Placing
pub mod Parts
pub mod Noting
pub mod Decimals
