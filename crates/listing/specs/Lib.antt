pub mod Memory
pub mod Lengths
pub mod Known
pub mod Printed
