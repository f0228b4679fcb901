pub mod Play
pub mod Alone
pub mod Together
pub mod Histories
pub mod Examples
