pub mod Walks
pub mod Meanings
pub mod Within
