mod JobReports
mod PickedRuns
mod FirstMoments
mod OneReport
mod PickLemmas
mod PickCases
mod ExactSlots
pub mod NoSpaceReports
mod PickedTurns
mod SlotCounts
