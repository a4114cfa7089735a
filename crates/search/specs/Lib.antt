pub mod FirstVia
pub mod BestVia
pub mod Near
-- The code's own steps.
pub mod Listed
pub mod Number
pub mod Outward
pub mod Planes
pub mod PartOf
pub mod RowNumber
