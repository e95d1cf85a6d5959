pub mod Assembly
pub mod CleanChecks
pub mod Grow
pub mod Promise
