pub mod Paths
pub mod Pushes
pub mod Truncations
pub mod States
pub mod SameState
pub mod Parts
pub mod Pins
pub mod Pinned
pub mod Named
pub mod FoundHolds
pub mod Lent
pub mod BookHolds
pub mod HeldAnew
pub mod CallerLemmas
mod Cases
