pub mod ExactSlots
pub mod Picks
pub mod PickedRun
pub mod PathReport
pub mod RunUnderLaws
