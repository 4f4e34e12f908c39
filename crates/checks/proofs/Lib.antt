pub mod Passes
pub mod Answering
