mod Digits
mod Numbers
pub mod Parts
pub mod Cuts
pub mod ByFields
pub mod Words
pub mod Spelt
