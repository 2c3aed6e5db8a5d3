pub mod Laws
pub mod Layout
pub mod Loading
pub mod NotedWords
pub mod Records
pub mod Storing
pub mod Words
