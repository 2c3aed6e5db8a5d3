pub mod Permutations
pub mod SortedLists
pub mod InOrder
