pub mod Step
pub mod StepLaws
pub mod StepWays
