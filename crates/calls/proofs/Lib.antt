pub mod Adding
pub mod Fields
pub mod Pairs
pub mod Groups
