-- Definitions: what a reader must believe
pub mod Values
-- Words of the way: they link code to definitions, and need no belief
pub mod Moves
pub mod Standing
pub mod Carrying
pub mod Answers
pub mod Turns
