pub mod ValueOrder
pub mod Exclusion
pub mod Leaving
pub mod Holding
