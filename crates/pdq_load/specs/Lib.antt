pub mod Files
pub mod Loaded
