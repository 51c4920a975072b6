mod TableExamples
mod MachineExamples
mod TimeExamples
pub mod Laws
pub mod Entries
pub mod Answers
