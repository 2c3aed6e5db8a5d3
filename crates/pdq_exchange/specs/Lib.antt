pub mod Batches
pub mod Routing
pub mod Roles
pub mod Waves
pub mod Loads
pub mod Exchanged
