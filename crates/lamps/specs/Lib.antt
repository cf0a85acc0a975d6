pub mod View
pub mod Lamp
pub mod Row
pub mod Whole
