pub mod SessionsLaw
pub mod SameImage
pub mod ReadSizes
pub mod TableEnd
mod ImageLaw
pub mod TestLaw
pub mod SessionTest
