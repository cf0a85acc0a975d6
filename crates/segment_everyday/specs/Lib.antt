pub mod Arms
pub mod Still
