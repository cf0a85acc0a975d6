pub mod Answer
pub mod Laws
pub mod Unique
pub mod Shown
