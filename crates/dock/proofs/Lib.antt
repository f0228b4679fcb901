pub mod Doing
pub mod Running
pub mod Lawful
