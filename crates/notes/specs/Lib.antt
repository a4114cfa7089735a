-- The code's own steps.
pub mod Rows
pub mod Known
