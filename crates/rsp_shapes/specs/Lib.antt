-- Definitions
pub mod Visible
pub mod Shapes
pub mod Scopes
-- Words of the way
pub mod Sound
pub mod Seeing
pub mod Groups
pub mod Walking
