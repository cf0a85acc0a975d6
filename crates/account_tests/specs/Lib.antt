pub mod Tests
pub mod TestLaws
pub mod Close
pub mod Unique
