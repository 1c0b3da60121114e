pub mod Units
pub mod Groups
pub mod Messages
pub mod Reading
