pub mod Line
pub mod Lengths
