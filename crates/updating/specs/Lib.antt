pub mod Update
pub mod Updated
pub mod Answer
pub mod Refresh
pub mod Unique
pub mod Longest
