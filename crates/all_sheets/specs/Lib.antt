pub mod All
pub mod Runs
