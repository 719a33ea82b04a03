pub mod Command
pub mod Fault
pub mod Login
pub mod Named
pub mod Plain
pub mod Rules
pub mod Table
pub mod Telling
