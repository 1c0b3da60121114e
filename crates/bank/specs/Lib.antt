pub mod Meaning
pub mod Calls
pub mod Directions
pub mod Slots
pub mod Stores
