pub mod Each
pub mod Keys
pub mod Order
