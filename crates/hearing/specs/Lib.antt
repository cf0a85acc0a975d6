pub mod Event
pub mod Laws
pub mod Exact
pub mod Unique
