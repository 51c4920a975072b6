pub mod Insertion
