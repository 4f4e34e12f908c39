pub mod View
pub mod Tags
pub mod Rows
pub mod Steps
pub mod Bridge
pub mod Limits
pub mod Fields
pub mod Items
