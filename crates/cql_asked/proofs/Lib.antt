mod Columns
mod Comparing
mod PlainLines
mod Readings
pub mod Ruling
pub mod WithTree
