pub mod Crosses
pub mod Seating
pub mod Taking
pub mod Telling
