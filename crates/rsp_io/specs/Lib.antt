-- What reads, writes and picks do, and what contracts see of the objects.
-- Definitions: what a reader must believe
pub mod Seen
pub mod Reading
pub mod Writing
pub mod Files
pub mod Objects
-- Words of the way
pub mod States
pub mod Parts
