pub mod Cases
pub mod Exact
pub mod PartsLaws
pub mod ReadBack
