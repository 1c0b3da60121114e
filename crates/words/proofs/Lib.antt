pub mod Walks
pub mod Same
pub mod Digits
pub mod Pairs
pub mod Plain
