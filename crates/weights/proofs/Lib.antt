pub mod Good
pub mod Laws
pub mod ByCoords
pub mod Answers
pub mod Walks
