-- Words of the way: they link code to definitions, and need no belief
pub mod Slots
pub mod Keys
pub mod Pairs
pub mod Facts
pub mod Trees
