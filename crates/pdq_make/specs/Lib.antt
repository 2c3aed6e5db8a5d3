pub mod MadeTables
pub mod Make
