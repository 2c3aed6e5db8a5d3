pub mod FilesRead
pub mod TablesGiven
