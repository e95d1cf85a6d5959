pub mod Back
pub mod Stores
pub mod WholeAnswer
pub mod FlatRows
