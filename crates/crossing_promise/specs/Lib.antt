pub mod Demand7
pub mod SheetList
