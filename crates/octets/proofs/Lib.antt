pub mod Cases
pub mod Laws
pub mod Round
pub mod Over
pub mod Same
pub mod Zero
pub mod ListLaws
pub mod Ordered
pub mod Members
pub mod PutLaws
pub mod Few
pub mod MoveLaws
mod Examples
pub mod LowLaws
pub mod Words
