pub mod Each
pub mod Checks
