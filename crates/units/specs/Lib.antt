pub mod Limits
pub mod Units
