pub mod Mirror
pub mod Empty
pub mod Refused
