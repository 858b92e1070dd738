-- Definitions
pub mod Paths
pub mod Selects
pub mod Trees
pub mod Translation
-- Words of the way
pub mod Begun
pub mod Building
