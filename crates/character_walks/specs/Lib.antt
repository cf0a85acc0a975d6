pub mod Walks
pub mod Reached
pub mod Runs
pub mod Drifts
