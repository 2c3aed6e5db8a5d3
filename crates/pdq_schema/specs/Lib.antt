pub mod Schemas
pub mod Fragments
pub mod SchemaTree
pub mod SchemaFile
pub mod Headings
