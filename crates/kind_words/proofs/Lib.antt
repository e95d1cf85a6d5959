pub mod Found
pub mod On
pub mod Theorem
