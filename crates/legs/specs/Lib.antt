pub mod Between
pub mod Crossing
pub mod Backward
