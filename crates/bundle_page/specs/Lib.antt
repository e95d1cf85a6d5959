pub mod Parts
pub mod AnswerPage
pub mod PageTables
pub mod PageReads
