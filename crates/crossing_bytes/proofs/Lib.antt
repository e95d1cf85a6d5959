pub mod Counted
pub mod FlatRows
pub mod Laws
pub mod Link
