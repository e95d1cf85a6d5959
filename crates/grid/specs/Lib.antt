pub mod On
pub mod DraftingGrid
pub mod Grids
