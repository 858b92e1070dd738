-- Definitions
pub mod Lines
pub mod Directives
pub mod Contents
pub mod Blocks
pub mod Files
pub mod Recorded
pub mod Merged
-- Words of the way
pub mod Instants
pub mod DirectiveSteps
pub mod Sorting
pub mod FileLines
pub mod Openings
pub mod Begun
pub mod Buffers
pub mod Reader
pub mod Steps
pub mod BodyLines
pub mod Recording
