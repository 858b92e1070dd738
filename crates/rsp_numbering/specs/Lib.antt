-- Definitions
pub mod Naming
pub mod Numbered
pub mod Expressions
pub mod Triples
pub mod Selections
pub mod Clauses
pub mod Limits
-- Words of the way
pub mod ExpressionSteps
pub mod TripleSteps
pub mod SelectionSteps
pub mod Same
pub mod Results
pub mod Seeing
pub mod Counting
pub mod Operators
