pub mod Rows
pub mod Faults
pub mod Blocks
pub mod Partitions
pub mod Stores
pub mod Hashes
