pub mod State
pub mod Layout
pub mod Image
pub mod Rows
