-- Words of the way:
pub mod Parts
pub mod Extremes
