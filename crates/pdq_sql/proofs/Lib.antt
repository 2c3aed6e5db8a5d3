pub mod ResolutionLists
pub mod ResolutionFits
pub mod ResolutionTies
mod Below
mod Loop
mod Sound
mod Complete
mod States
mod Runs
mod Viable
mod Bytes
mod NumberBytes
mod Lines
mod LineRuns
mod Places
mod Answered
mod Reserved
