pub mod Words
pub mod Lines
pub mod Calls
pub mod History
pub mod Law
pub mod Runs
