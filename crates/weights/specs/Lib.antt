pub mod Weights
pub mod Distance
pub mod Walks
-- The code's own steps.
pub mod Steps
