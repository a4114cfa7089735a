pub mod Planning
pub mod Unlisted
pub mod Listing
pub mod Written
pub mod Worked
