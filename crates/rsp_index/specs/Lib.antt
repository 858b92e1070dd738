-- Definitions: what a reader must believe
pub mod Kept
-- Words of the way: they link code to definitions, and need no belief
pub mod Buckets
pub mod Keys
