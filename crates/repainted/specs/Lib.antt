pub mod Repainted
pub mod Accepted
pub mod Follows
pub mod Strobe
pub mod Segment
pub mod Character
pub mod ByPart
