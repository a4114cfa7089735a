pub mod Cell
pub mod End
pub mod Masks
pub mod Span
-- The code's own steps.
pub mod Ranges
