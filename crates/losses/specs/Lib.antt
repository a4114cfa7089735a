pub mod Loss
pub mod OfPlan
pub mod Lists
