pub mod Alone
pub mod Begins
pub mod Crosses
pub mod Turns
