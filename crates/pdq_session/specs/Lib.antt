pub mod ScriptLaws
pub mod Commands
pub mod ScriptStates
pub mod ScriptSteps
pub mod ScriptTranscript
pub mod Progress
pub mod PrintedLines
pub mod ScriptLines
