mod Cases
pub mod CallerLemmas
pub mod PlainLists
pub mod Parts
pub mod Positions
pub mod Marks
pub mod MarkLists
pub mod NextFragments
pub mod Counts
