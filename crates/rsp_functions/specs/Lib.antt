-- Definitions
pub mod Functions
