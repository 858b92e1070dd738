pub mod WordLists
pub mod WordTables
mod WordRows
pub mod Optional
pub mod Cutting
pub mod Places
pub mod Slack
pub mod Fronts
