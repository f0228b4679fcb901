pub mod Answered
pub mod Line
pub mod Does
pub mod Checks
pub mod Found
