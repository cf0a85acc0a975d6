pub mod Report
pub mod Laws
pub mod Exact
pub mod Unique
