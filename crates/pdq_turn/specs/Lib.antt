pub mod LockRule
pub mod Seats
pub mod Pass
