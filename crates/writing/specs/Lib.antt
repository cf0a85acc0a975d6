pub mod Sets
pub mod Writes
pub mod Laws
pub mod Wrote
pub mod Prints
