pub mod Seating
pub mod Stores
