pub mod WriteParts
pub mod Paths
pub mod WriteMarks
pub mod Ends
pub mod Standing
pub mod Added
pub mod CallerLemmas
mod Cases
