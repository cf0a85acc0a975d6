pub mod Bytes
pub mod Laws
pub mod Begun
pub mod Unique
