pub mod Together
pub mod Saying
pub mod Naming
