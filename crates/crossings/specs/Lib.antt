pub mod List
pub mod Words
