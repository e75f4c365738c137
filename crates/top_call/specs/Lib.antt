pub mod UsageAndRefusals
pub mod CommandWords
pub mod CommandAnswer
pub mod Output
pub mod Top
