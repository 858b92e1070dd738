pub mod Rows
pub mod Aggregated
pub mod Law
pub mod Below
pub mod Given
pub mod Keyed
pub mod Told
