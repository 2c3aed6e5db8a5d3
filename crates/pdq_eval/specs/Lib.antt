pub mod Owners
pub mod Scanning
pub mod Running
pub mod Results
pub mod Overflow
pub mod Laws
pub mod Picks
