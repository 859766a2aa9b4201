pub mod Soundness
pub mod Clear
pub mod Left
pub mod Every
