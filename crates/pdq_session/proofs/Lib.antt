pub mod ActiveLists
pub mod Standing
pub mod Saying
pub mod Unasked
pub mod Answering
pub mod LegalScripts
pub mod PrintedScripts
pub mod Running
pub mod Growing
pub mod Turning
pub mod Starting
pub mod Replying
mod StoreCounts
mod Coming
pub mod Wide
