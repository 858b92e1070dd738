mod SolutionRows
mod WorkRows
pub mod Widths
pub mod Sets
pub mod Subtrees
pub mod SameFacts
pub mod NoFacts
pub mod Bindings
pub mod PatternRows
pub mod BasicLaw
pub mod Spines
pub mod FactsRead
pub mod Flat
pub mod SameWork
pub mod Ranges
