pub mod PathMaps
pub mod CallerLemmas
pub mod Stands
mod Cases
