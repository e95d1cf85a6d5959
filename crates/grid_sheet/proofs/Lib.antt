pub mod AllNumbers
pub mod Building
pub mod Drawing
pub mod Paging
pub mod Rerouting
pub mod SheetSteps
pub mod Touching
pub mod WholeSheet
