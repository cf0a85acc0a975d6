pub mod Said
pub mod Field
pub mod Laws
