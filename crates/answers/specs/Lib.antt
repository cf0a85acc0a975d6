pub mod Answer
pub mod Told
pub mod Unique
pub mod Ended
pub mod Points
