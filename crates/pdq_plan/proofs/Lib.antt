pub mod Distinct
pub mod Ordering
pub mod Meaning
pub mod Choosing
pub mod Keeping
pub mod Stepping
pub mod Samples
