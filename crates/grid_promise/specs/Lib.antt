pub mod Wholes
pub mod Grid
pub mod GridAnswer
