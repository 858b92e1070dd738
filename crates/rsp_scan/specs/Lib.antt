-- Definitions
pub mod Enclosed
pub mod Escaping
pub mod Fronts
pub mod Names
-- Words of the way
pub mod Machines
pub mod Readers
pub mod Kinds
pub mod Scans
pub mod Following
