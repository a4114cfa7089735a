pub mod Knowing
pub mod OnWays
pub mod Values
pub mod ShortStep
pub mod LastStep
pub mod Destination
