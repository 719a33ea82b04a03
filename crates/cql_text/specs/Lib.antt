pub mod Rules
pub mod Meaning
pub mod Grammar
pub mod Reading
pub mod Readers
pub mod Read
