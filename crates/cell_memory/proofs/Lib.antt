pub mod Spoilt
pub mod Kept
pub mod Exactly
