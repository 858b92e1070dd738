-- Definitions
pub mod Substrings
pub mod Occurrences
pub mod Ranges
pub mod CodePoints
-- Words of the way
pub mod Cuts
