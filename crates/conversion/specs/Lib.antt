pub mod Keeping
pub mod Converting
pub mod Kept
pub mod Worked
-- The code's own steps.
pub mod Steps
