pub mod ByFamily
