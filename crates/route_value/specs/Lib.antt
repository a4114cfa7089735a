pub mod Reading
pub mod Writing
pub mod Value
pub mod Worked
-- The code's own steps.
pub mod Steps
pub mod Making
