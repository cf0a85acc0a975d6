pub mod Sum
pub mod Characters
pub mod Segments
pub mod Panels
