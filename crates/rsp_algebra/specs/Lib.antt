-- Definitions: what a reader must believe
pub mod Nodes
pub mod Patterns
pub mod Solutions
pub mod Overfull
pub mod BasicPatterns
pub mod Work
-- Words of the way: they link code to definitions, and need no belief
pub mod Changing
pub mod Fitting
pub mod Spines
pub mod Meanings
pub mod Reading
pub mod Flat
