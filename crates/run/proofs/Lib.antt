pub mod Bodies
pub mod Tops
pub mod Turns
