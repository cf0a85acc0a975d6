pub mod Step
pub mod Steps
