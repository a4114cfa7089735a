pub mod Least
pub mod Reach
-- The code's own steps.
pub mod Nodes
