pub mod Reading
pub mod Bytes
pub mod Laws
pub mod Program
