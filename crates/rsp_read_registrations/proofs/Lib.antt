pub mod Capped
pub mod ByName
