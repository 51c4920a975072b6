mod Examples
pub mod Short
pub mod Walk
mod Sum
mod Turn
mod Copy
pub mod After
pub mod Written
pub mod AddedLaws
