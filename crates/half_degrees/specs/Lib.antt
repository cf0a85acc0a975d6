pub mod Half
pub mod Laws
pub mod Computed
