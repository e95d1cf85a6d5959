pub mod Permitted
pub mod Sheet
pub mod Theorem
