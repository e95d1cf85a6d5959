pub mod DraftingLaws
pub mod Exactly
pub mod GridArithmetic
pub mod Lanes
pub mod OnLaws
pub mod Operations
pub mod Raising
pub mod SamePlace
