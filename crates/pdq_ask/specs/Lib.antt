pub mod Plain
pub mod Alone
