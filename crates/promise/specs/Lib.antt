pub mod Refusals
pub mod Calls
pub mod Tell
pub mod Clips
pub mod Runs
pub mod Next
pub mod Hierarchy
pub mod Book
