pub mod Answer
pub mod Frame
pub mod Notice
pub mod Calls
pub mod Codes
pub mod Bench
