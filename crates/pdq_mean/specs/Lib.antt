pub mod CellRefs
pub mod Loops
pub mod Groups
pub mod Rows
pub mod Tallies
pub mod Grouping
pub mod KeyPrefixes
pub mod Places
