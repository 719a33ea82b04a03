pub mod Goes
pub mod Crosses
pub mod Lookups
pub mod Claiming
pub mod Receipts
pub mod Calls
pub mod Alone
pub mod Telling
pub mod Sending
pub mod Queueing
mod Instances
