pub mod Carried
pub mod Again
