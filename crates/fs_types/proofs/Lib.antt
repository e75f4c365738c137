pub mod Common
pub mod CallerLemmas
pub mod Tables
pub mod Overwrites
pub mod PlainFiles
pub mod AnswerOrder
pub mod PathsAndNames
mod Cases
mod OverwriteCases
mod FragmentCases
