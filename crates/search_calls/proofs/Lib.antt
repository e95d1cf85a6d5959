pub mod Cases
pub mod Copies
pub mod RefusalSteps
pub mod SameCalls
pub mod Sizes
