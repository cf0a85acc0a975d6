pub mod Turn
pub mod Kept
pub mod Reads
pub mod Run
