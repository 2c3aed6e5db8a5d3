pub mod Texts
pub mod Dictionary
pub mod Laws
pub mod Coding
pub mod CodingLaws
