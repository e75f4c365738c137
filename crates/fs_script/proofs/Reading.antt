-- The two laws: what is read is spelled so, and what is spelled so is read.
pub mod Steps
pub mod Numbers
pub mod Words
pub mod Headers
pub mod OpLines
pub mod Scripts
pub mod WithoutWant
