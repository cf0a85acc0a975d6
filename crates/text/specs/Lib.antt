pub mod Text
pub mod Decimal
