-- Definitions
pub mod Refusals
pub mod Output
pub mod Checks
pub mod Generator
pub mod Summaries
pub mod Recordings
pub mod Replays
pub mod Sources
pub mod Shelves
pub mod Sinks
pub mod Statuses
pub mod FileAnswers
pub mod LogAnswers
pub mod Costs
-- Words of the way
pub mod Reasons
pub mod Tallies
pub mod Readings
pub mod Runs
pub mod Stops
pub mod Sayings
pub mod Voices
pub mod Feeds
pub mod Logs
pub mod Feeding
