pub mod Tally
pub mod Bar
