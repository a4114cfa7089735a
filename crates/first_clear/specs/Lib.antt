-- The code's own steps.
pub mod Known
