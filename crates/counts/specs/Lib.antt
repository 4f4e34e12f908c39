pub mod Sums
pub mod Starts
pub mod Places
