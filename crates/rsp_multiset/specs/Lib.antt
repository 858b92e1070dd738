-- Definitions: what a reader must believe
pub mod Weights
pub mod Rows
pub mod RowLists
pub mod Variables
pub mod Matching
pub mod Shown
-- Words of the way: they link code to definitions, and need no belief
pub mod RowSame
