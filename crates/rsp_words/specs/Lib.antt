-- Definitions
pub mod Words
-- Words of the way
pub mod Asked
pub mod LogWords
pub mod Playing
