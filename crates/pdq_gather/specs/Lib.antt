pub mod Rows
pub mod Homes
pub mod Groups
pub mod Benches
