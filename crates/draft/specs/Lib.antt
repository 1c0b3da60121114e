pub mod Octets
pub mod Drafts
