pub mod Changing
pub mod Splitting
pub mod Giving
