pub mod Responses
pub mod Desks
pub mod Ended
pub mod Output
pub mod Sessions
