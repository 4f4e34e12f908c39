pub mod Bytes
pub mod Sinks
pub mod Writers
