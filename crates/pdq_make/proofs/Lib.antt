pub mod Generated
pub mod Lines
pub mod MadeRows
pub mod MadeStates
pub mod Shapes
