pub mod Counting
pub mod Homing
pub mod Grouping
