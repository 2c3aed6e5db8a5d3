pub mod Tested
pub mod Reading
pub mod Scanning
pub mod LaneRows
pub mod Columns
pub mod Partitioned
