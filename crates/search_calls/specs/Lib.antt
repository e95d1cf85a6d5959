pub mod Entry
pub mod Copied
pub mod Lent
pub mod Marks
