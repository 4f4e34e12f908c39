pub mod Ends
pub mod Node
