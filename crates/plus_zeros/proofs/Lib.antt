pub mod SameAnswer
pub mod SameFields
pub mod SameJob
pub mod Sample
