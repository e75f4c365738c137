mod Paths
mod Puts
pub mod CallerLemmas
mod Stands
mod Fronts
mod Cases
