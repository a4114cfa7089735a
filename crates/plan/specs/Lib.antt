pub mod Layout
pub mod Kinds
pub mod Checks
pub mod Reading
pub mod Writing
pub mod Worked
-- The code's own steps.
pub mod Steps
