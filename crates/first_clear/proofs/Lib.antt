pub mod Own
pub mod Twos
pub mod Steps
pub mod Reaches
pub mod Dests
