pub mod Table
pub mod Machine
pub mod Management
pub mod Time
