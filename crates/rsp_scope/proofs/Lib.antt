mod ContentRows
pub mod Endings
pub mod Follows
pub mod Forgetting
pub mod LaneLaws
pub mod LogLaws
pub mod Needed
mod NeededRows
pub mod Needs
pub mod Orders
pub mod Puts
pub mod Reading
pub mod Risings
pub mod InsertCounts
pub mod ScopeRows
pub mod StoredLaws
pub mod Takings
pub mod Tallies
pub mod Turns
