pub mod Climbing
pub mod Outcomes
