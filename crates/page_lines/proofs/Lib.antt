mod Columns
pub mod DigitStores
pub mod Digits
