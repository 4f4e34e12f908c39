pub mod Tables
pub mod Counting
pub mod Running
pub mod Expanding
