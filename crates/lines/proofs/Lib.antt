pub mod LineByLine
pub mod Saying
pub mod Only
pub mod Worked
