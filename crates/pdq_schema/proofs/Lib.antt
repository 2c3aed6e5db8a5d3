pub mod FragmentLaws
pub mod TreeLaws
pub mod Readings
pub mod ColumnLaws
pub mod CutLaws
pub mod SchemaLaws
