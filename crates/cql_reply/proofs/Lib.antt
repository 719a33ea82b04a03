pub mod Buffering
mod Escaping
pub mod Pieces
mod Plain
pub mod Telling
