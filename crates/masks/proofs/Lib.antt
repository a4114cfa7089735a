pub mod Tables
pub mod Ranges
pub mod Arcs
pub mod Spans
pub mod RowMasks
pub mod Columns
