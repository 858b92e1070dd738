-- Definitions: what a reader must believe
pub mod Decimals
pub mod Numbers
pub mod Texts
pub mod Tallies
pub mod Totals
-- Words of the way
pub mod SecondReadings
pub mod TallyBounds
