-- What holds the slots of logs, worked out by hand.
pub mod Jobs
pub mod ThreeSlots
pub mod TwoSlots
pub mod Overwrites
pub mod TwoLives
pub mod Truncs
pub mod OwnReads
