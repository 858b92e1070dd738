-- Definitions
pub mod Characters
pub mod Terms
-- Words of the way
pub mod Same
pub mod TextNumbers
