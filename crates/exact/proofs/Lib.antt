pub mod Between
pub mod Meeting
pub mod Near
pub mod Outside
pub mod Theorem
pub mod TwoBundles
