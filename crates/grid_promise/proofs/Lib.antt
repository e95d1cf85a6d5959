pub mod Back
pub mod Cases
pub mod ExactShift
pub mod Theorem
pub mod Whole
