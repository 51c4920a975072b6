pub mod CappedLine
pub mod Fields
