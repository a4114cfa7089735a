pub mod Run
pub mod Outcomes
-- The code's own steps.
pub mod Outside
pub mod Known
pub mod Ranked
pub mod Steps
