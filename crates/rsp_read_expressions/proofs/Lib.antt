pub mod Firsts
pub mod Ranks
pub mod ListSteps
pub mod OperandSteps
pub mod ArgumentLaws
pub mod Failing
