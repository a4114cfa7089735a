pub mod Shape
pub mod Axis
-- The code's own steps.
pub mod Steps
