pub mod Fair
pub mod Laws
