pub mod Checked
pub mod Soundness
pub mod Left
