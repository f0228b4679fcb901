pub mod Kinds
pub mod Game
