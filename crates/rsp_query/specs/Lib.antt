-- Definitions
pub mod Paths
pub mod Groups
pub mod Walks
pub mod Queries
-- Words of the way
pub mod Meanings
pub mod Counts
