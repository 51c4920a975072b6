mod Examples
pub mod Pieces
mod KeptLaws
mod Measured
pub mod RoomFree
pub mod RunLaws
mod ReadyLaws
mod StepLaws
mod StepTaken
mod ServeLaws
pub mod Bounds
