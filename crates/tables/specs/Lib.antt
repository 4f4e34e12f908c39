pub mod Tables
pub mod Zeros
pub mod Later
