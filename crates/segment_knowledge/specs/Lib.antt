pub mod View
pub mod Unique
