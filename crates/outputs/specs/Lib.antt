pub mod Outputs
pub mod Promises
