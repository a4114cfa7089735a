pub mod Bits
pub mod Rows
pub mod NextSet
pub mod Product
-- The code's own steps.
pub mod Planes
