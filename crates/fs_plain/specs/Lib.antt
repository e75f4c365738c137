pub mod JournalEntries
pub mod FileAttributes
pub mod FrontByJournals
pub mod Blocks
pub mod KeptFile
