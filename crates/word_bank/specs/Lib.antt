pub mod Words
pub mod Owed
