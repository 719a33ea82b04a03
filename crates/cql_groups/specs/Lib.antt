pub mod Keyed
pub mod Parts
pub mod Layouts
pub mod GroupLaws
pub mod GroupKey
pub mod Grouped
pub mod Filed
pub mod GroupShape
