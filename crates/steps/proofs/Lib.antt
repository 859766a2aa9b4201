pub mod HeadsFound
pub mod Between
