pub mod LineStores
pub mod Padded
