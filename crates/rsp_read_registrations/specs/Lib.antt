-- Words of the way
pub mod Heads
