pub mod Limits
pub mod Reading
pub mod Replies
pub mod Changes
pub mod Answers
