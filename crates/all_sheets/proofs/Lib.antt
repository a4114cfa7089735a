-- `Inputs` says why what was read decides a run, `Leaving` what a run leaves for the next one, `AllRuns` what all runs give, and `Enough` that a program lends enough for them.
pub mod Inputs
pub mod Lengths
pub mod Leaving
pub mod AllRuns
pub mod Enough
