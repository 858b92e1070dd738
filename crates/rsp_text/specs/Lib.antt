-- Definitions
pub mod Fronts
pub mod Digits
pub mod Instants
pub mod Spans
