pub mod Elimination
pub mod Laws
