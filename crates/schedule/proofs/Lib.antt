pub mod Calling
pub mod Moving
pub mod Ending
pub mod Lines
pub mod Opening
