pub mod Listing
pub mod Reading
