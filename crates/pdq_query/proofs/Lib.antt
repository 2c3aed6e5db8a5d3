pub mod Orders
pub mod Choosing
pub mod Answering
pub mod Planning
mod Examples
