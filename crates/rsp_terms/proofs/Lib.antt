mod CharacterRows
mod Numbered
pub mod CharacterSteps
pub mod Injective
mod TermRows
pub mod Schemes
