pub mod Decimal
pub mod Text
-- The code's own steps; no other crate cites them.
pub mod Steps
