pub mod Replay
pub mod Passing
pub mod Walked
pub mod FromNothing
pub mod Unique
pub mod ByPart
pub mod Points
