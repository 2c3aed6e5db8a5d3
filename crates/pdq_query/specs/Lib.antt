pub mod Queries
pub mod Choices
pub mod Conditions
pub mod Folds
pub mod Answer
pub mod Fits
pub mod Plans
pub mod Laws
