pub mod Counting
pub mod Turned
pub mod Passing
pub mod Works
pub mod Listing
pub mod Standing
