pub mod Marked
pub mod Masked
