pub mod Thermo
pub mod Refused
