pub mod Part
pub mod Event
