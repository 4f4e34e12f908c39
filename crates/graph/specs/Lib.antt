pub mod Sets
pub mod Rows
