pub mod Kept
pub mod Calls
pub mod Lends
pub mod Deeds
