pub mod Taking
pub mod Columns
pub mod Sets
pub mod Legs
pub mod Sifting
