pub mod Rolling
pub mod Owed
