pub mod Places
pub mod Fronts
pub mod Sides
pub mod Tags
pub mod SubstringRows
pub mod OccurrenceRows
