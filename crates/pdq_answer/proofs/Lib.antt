pub mod ToldRuns
mod LeftFragments
