pub mod CrossTrees
pub mod CrossQueries
mod Finding
mod Bounds
mod Each
pub mod Few
mod Meant
mod Firsts
mod FitExpressions
pub mod Once
mod FitConditions
mod Fits
mod Joined
mod Qualified
mod Ports
mod Seen
mod PlainPlans
mod ShownColumns
pub mod CrossWrittenTrees
pub mod CrossWritten
mod Instances
