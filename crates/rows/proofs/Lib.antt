pub mod Bits
pub mod Rowing
pub mod LowestBit
pub mod Taking
pub mod Combined
