pub mod Altering
pub mod Flat
pub mod OneFact
pub mod Counts
mod Once
