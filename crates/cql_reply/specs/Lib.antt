pub mod Buffered
pub mod Held
pub mod Line
pub mod Pieces
pub mod Place
