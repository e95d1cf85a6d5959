pub mod PageReadsBack
