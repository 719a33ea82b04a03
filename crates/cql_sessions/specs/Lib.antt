pub mod Agreed
pub mod Answering
pub mod InHand
pub mod Request
pub mod Seating
pub mod Tallies
pub mod Unread
