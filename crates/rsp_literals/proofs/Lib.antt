pub mod Differing
pub mod Fronts
pub mod ReadBack
pub mod Sizes
