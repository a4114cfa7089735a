pub mod Bools
pub mod Looking
pub mod Bits
pub mod Links
pub mod Table
pub mod Answers
pub mod Laws
pub mod NodeTable
