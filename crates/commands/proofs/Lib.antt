pub mod Cutting
pub mod Reading
pub mod Parts
pub mod Spelling
pub mod Commanding
