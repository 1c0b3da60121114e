pub mod Walk
pub mod Shapes
pub mod Members
