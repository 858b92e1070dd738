-- Words of the way: they link the code to the definitions
pub mod Congruences
