pub mod LexLemmas
pub mod Quotes
pub mod Splits
pub mod Pieces
pub mod Reserved
