pub mod FirstIn
pub mod Walked
mod FaultRows
