pub mod Parts
pub mod Own
pub mod Changes
pub mod Stored
pub mod Arrivals
pub mod Answered
pub mod Decisions
pub mod Ways
