mod FrameSetExamples
mod RequestExamples
mod LaterExamples
pub mod Short
pub mod Places
pub mod Said
pub mod LaterRead
pub mod LaterLaws
pub mod LaterEvery
pub mod FrameParts
pub mod Headings
