pub mod Sheet
pub mod Demand
