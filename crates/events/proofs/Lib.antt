pub mod Examples
mod HexDigits
mod Counts
mod HexFields
mod LogFields
mod LogFrames
pub mod LogWords
pub mod Puts
mod Hexes
mod Decimals
mod Ends
mod Printed
mod FieldRound
pub mod LineRound
mod RoundExamples
