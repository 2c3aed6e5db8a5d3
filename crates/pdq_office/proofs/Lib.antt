pub mod Unique
pub mod Knowing
pub mod Turning
pub mod Parties
pub mod Following
pub mod Calls
pub mod Sending
