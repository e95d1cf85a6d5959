pub mod Bytes
pub mod RowBytes
