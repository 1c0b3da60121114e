pub mod Inks
pub mod Cuts
pub mod Figures
pub mod Letters
pub mod Terms
pub mod Lines
pub mod Shown
pub mod Whole
