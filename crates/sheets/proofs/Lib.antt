-- `Tallies` and `Walking` have the laws of a tally, `Going` that of a run's answer, `Times` that the time left is a number.
pub mod Tallies
pub mod Walking
pub mod Going
pub mod Times
