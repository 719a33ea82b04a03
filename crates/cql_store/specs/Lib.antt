pub mod Parts
pub mod Calls
pub mod Held
pub mod Next
pub mod Sequence
pub mod StreamsLaw
pub mod Stores
