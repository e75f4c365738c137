pub mod Told
pub mod Source
pub mod Sink
pub mod ReadAll
pub mod InMemory
pub mod SpillDev
pub mod Host
