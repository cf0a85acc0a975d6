pub mod Test
pub mod Table
