mod Examples
pub mod Lengths
pub mod Write
mod Parts
mod Whole
