pub mod FreePlaces
pub mod LeastTree
pub mod Slots
pub mod Entries
pub mod Log
pub mod TakeNo
