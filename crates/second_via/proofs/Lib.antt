pub mod Going
pub mod Keys
pub mod Storing
pub mod Sums
