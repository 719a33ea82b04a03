pub mod Seq
pub mod Taken
pub mod Beside
pub mod Chunks
pub mod Form
pub mod Waiting
