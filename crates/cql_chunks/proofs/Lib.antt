pub mod SeqCrosses
pub mod Trees
pub mod Beside
pub mod Crosses
pub mod Rows
