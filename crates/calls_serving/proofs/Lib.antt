pub mod DataLaws
pub mod FrameLaws
pub mod ManageLaws
pub mod OwedLaws
pub mod NoticeLaws
