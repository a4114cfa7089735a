pub mod Forms
pub mod Writings
pub mod Rewriting
pub mod RoundTrips
