pub mod Sheets
pub mod Entries
pub mod Finding
pub mod Lookups
pub mod Rising
pub mod Listed
pub mod Saying
