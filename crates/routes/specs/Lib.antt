pub mod Kinds
pub mod Layout
pub mod Said
pub mod Checks
pub mod Lookup
pub mod Says
-- The code's own steps.
pub mod Steps
