-- Definitions: what a reader must believe
pub mod Policies
pub mod Due
pub mod Seen
-- Words of the way: they link the code to the definitions
pub mod Searches
pub mod Leaps
pub mod Named
