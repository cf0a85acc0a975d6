pub mod Writes
pub mod Ran
pub mod Leads
pub mod Known
pub mod Accepted
pub mod Stores
pub mod ByPart
