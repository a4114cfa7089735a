pub mod Faults
pub mod Order
pub mod Weights
pub mod Plans
pub mod Most
pub mod Listed
pub mod Readings
pub mod Worked
