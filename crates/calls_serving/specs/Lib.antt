pub mod Preconditions
