pub mod Records
pub mod Heads
pub mod Forms
pub mod Encoding
pub mod Fill
pub mod Outputs
pub mod RoundTrips
pub mod Inputs
