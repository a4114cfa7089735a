pub mod ThirdLeg
pub mod TwoShort
pub mod Answers
