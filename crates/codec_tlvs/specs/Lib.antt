pub mod Part
pub mod Tlv
pub mod Walk
pub mod Additions
