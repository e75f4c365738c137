pub mod Writes
pub mod Kept
pub mod Calls
pub mod HoldLends
pub mod PendingWrites
