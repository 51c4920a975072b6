pub mod Tests
pub mod ZeroLaws
pub mod RowsLaw
pub mod PortsLaw
mod BitLaws
mod MarksLaw
mod Used
mod PlacesLaw
mod OddLaw
mod SetLaw
mod FlowLaw
pub mod FlowsLaw
pub mod AllowedLaw
pub mod TurnLaws
mod SumLaws
mod MarkTurns
mod AddressTurns
mod PortTest
mod FlowTest
