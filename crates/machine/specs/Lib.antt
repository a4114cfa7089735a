pub mod Number
pub mod Hop
pub mod Torus
pub mod Node
pub mod Begins
pub mod Worked
-- The code's own steps.
pub mod ByCoords
pub mod Division
pub mod Ways
