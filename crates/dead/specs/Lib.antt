pub mod Dead
-- The code's own steps.
pub mod Steps
