pub mod Packet
pub mod New
pub mod Answers
pub mod Worked
-- The code's own steps; no other crate cites them.
pub mod Steps
pub mod Course
pub mod LastHop
