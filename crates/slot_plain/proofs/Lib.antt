mod FreeLists
mod LeastTrees
mod FreeTrees
mod Tables
mod TableSteps
mod Cells
mod Logs
mod LogSteps
mod Taken
mod Cases
pub mod Shapes
