pub mod Lent
pub mod Meaning
pub mod Rules
pub mod Words
