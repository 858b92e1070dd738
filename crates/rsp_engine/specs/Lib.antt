-- Definitions
pub mod World
pub mod Contents
pub mod Due
pub mod Moments
pub mod Refusals
pub mod Readings
pub mod Accept
pub mod Reports
pub mod Kept
pub mod Bounds
pub mod Offers
-- Words of the way
pub mod Steps
pub mod Left
pub mod Stands
pub mod Inside
pub mod Passing
pub mod Watching
pub mod Watched
pub mod Readers
pub mod Seeing
pub mod Keeping
pub mod Sought
