pub mod Taps
pub mod Built
pub mod Windows
