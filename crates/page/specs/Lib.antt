pub mod Page
pub mod Lengths
pub mod Laws
pub mod Known
