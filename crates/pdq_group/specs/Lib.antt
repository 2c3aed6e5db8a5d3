pub mod Words
pub mod Folds
pub mod Groups
pub mod Trees
pub mod Tables
pub mod Causes
pub mod Groupers
pub mod Passes
