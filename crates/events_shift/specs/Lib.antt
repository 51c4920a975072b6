pub mod Lines
pub mod Kept
pub mod Step
pub mod Held
pub mod Served
pub mod Shift
pub mod Ready
