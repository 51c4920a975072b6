mod Further
mod Mps
pub mod BenchTable
pub mod Fits
pub mod Alone
pub mod Standing
pub mod TickValid
pub mod Flags
pub mod ManageValid
pub mod PlaceSets
pub mod SetFlows
pub mod ChangeValid
pub mod DecideValid
pub mod RequestValid
pub mod FrameValid
pub mod CallValid
pub mod FrameEach
pub mod CodesSent
pub mod LineOrder
