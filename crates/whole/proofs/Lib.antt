pub mod Whole
pub mod Awaits
pub mod Segment
pub mod Character
pub mod Parts
