pub mod Table
pub mod Whole
pub mod Told
