-- `Decimals` has the laws of a number's digits, `Puts` those of what is written, `Lines` those of the lines, `Sources` what the checks leave,
-- `Texts` the text as a whole, `Long` what a long input is answered, `Fits` how long a text can be, `Reading` the listing of what was read.
pub mod Decimals
pub mod Puts
pub mod Lines
pub mod Sources
pub mod Texts
pub mod Long
pub mod Fits
pub mod Reading
