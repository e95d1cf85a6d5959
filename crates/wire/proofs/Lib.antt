pub mod AcceptLaws
pub mod All
pub mod Bits
pub mod BytesLaws
pub mod GridCases
