pub mod Groups
pub mod Keyed
pub mod Numbered
pub mod Commands
pub mod Check
