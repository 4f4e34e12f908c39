pub mod Specimens
