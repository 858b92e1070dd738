-- Definitions
pub mod Grammar
pub mod Answers
pub mod Writing
-- Words of the way
pub mod Parts
pub mod Statements
pub mod Results
pub mod Fields
pub mod Blanks
pub mod Faults
