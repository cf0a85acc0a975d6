pub mod Takes
pub mod Walks
pub mod Rows
pub mod Joined
pub mod Run
pub mod Unique
