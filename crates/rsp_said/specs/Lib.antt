-- Definitions
pub mod Escapes
pub mod Tables
pub mod Saying
