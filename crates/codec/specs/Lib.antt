pub mod FrameSet
pub mod Request
pub mod Later
