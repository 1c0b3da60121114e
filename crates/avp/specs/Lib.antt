pub mod Octets
pub mod Header
pub mod Names
pub mod Fields
pub mod Words
