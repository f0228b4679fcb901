pub mod Exact
pub mod Row
