pub mod Noted
pub mod PathMap
pub mod PathLends
pub mod Kept
pub mod Deeds
