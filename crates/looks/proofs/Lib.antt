pub mod FlatRows
pub mod Found
