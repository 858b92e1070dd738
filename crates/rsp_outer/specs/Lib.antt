-- Definitions: what a reader must believe
pub mod Tests
-- Words of the way: they link code to definitions, and need no belief
pub mod Partners
pub mod Standing
pub mod Truths
pub mod ByKey
