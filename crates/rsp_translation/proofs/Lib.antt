pub mod Rows
pub mod Building
pub mod Clauses
pub mod Fitting
mod TranslationRows
pub mod Causes
