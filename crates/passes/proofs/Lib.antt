pub mod Turns
pub mod Scopes
