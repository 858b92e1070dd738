-- Definitions
pub mod LeftOut
pub mod Parsing
pub mod Texts
pub mod Answers
-- Words of the way
pub mod Deciding
pub mod Periods
