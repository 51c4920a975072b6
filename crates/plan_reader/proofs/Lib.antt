mod CapLaws
mod ReasonLaws
mod ReasonRange
mod AddLaws
mod ReadLaws
pub mod ReadBack
