-- Definitions
pub mod Languages
-- Words of the way
pub mod Exact
pub mod Readers
pub mod Gathering
pub mod Fronts
