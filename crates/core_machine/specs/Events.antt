-- The event of each operation.
pub mod Create
pub mod Open
pub mod Write
pub mod Sync
pub mod Read
pub mod Size
pub mod Trunc
pub mod Laminate
pub mod Unlink
