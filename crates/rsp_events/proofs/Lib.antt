pub mod Endings
pub mod Cutting
pub mod Grouping
pub mod DirectiveLaws
pub mod Times
pub mod Reading
pub mod GrownBlocks
pub mod Taking
pub mod Parted
pub mod Going
pub mod BufferLaws
pub mod FirstByte
pub mod FileLines
pub mod Recordings
pub mod FileLaws
pub mod RecordedTimes
pub mod Listing
pub mod ByTime
mod BlockRows
mod FileRows
