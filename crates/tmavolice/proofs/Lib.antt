pub mod CheckLaws
pub mod FrameChecks
pub mod Rewrites
pub mod EnterLaws
pub mod MakeLaws
