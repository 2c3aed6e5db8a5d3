pub mod NotStopped
pub mod PlainTables
