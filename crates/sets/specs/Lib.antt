pub mod Part
pub mod Clear
pub mod Sift
