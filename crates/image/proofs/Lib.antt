pub mod Alike
pub mod Lookup
pub mod Keys
pub mod Field
pub mod Sorts
pub mod Lists
pub mod Loop
