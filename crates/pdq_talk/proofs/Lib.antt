pub mod Growing
pub mod Turns
pub mod Plainly
pub mod Writing
pub mod Changing
pub mod PoolCauses
pub mod Pooled
