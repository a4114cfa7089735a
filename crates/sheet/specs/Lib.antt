pub mod Bytes
pub mod Head
pub mod Records
pub mod Output
pub mod Input
