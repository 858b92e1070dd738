-- Definitions: what a reader must believe
pub mod Contents
pub mod Needed
pub mod Quads
pub mod Faults
-- Words of the way
pub mod Kept
pub mod Logged
pub mod Ends
pub mod Inside
pub mod Moves
pub mod Lanes
pub mod Order
pub mod Pieces
pub mod Putting
pub mod Runs
