pub mod Tail
pub mod Laws
pub mod Points
