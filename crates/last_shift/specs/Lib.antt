pub mod Shift
pub mod InAnswer
