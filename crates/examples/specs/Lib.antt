pub mod Row
pub mod Test
pub mod Table
pub mod AnyKnowledge
