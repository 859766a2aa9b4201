pub mod Climb
pub mod Left
