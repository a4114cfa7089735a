-- `Cases` has a test's two cases, `Parts` the laws of the parts of a list, `Places` that of a byte's place, `Decimals` those of a number's digits.
mod Cases
mod Parts
mod Places
mod Decimals
