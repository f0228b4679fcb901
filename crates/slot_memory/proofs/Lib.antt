pub mod Fronts
pub mod Kept
pub mod Ranges
