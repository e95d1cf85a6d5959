pub mod Fraction
pub mod Kind
pub mod Plain
pub mod Sign
pub mod Total
