pub mod Growing
pub mod Placing
