pub mod ColumnKinds
pub mod Scales
pub mod Rows
pub mod Picked
pub mod Gathered
pub mod Foldable
pub mod Nothing
pub mod Answering
