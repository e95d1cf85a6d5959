pub mod Taken
pub mod Patterns
