pub mod Searching
pub mod Membership
pub mod Unseen
pub mod PolicyLaws
pub mod PolicyRows
pub mod NextItems
pub mod Agreement
