pub mod Octets
pub mod Sound
pub mod Lengths
