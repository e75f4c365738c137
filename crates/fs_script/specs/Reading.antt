-- Reading a script from left to right, up to the first fault, part by part.
pub mod Steps
pub mod Tokens
pub mod Numbers
pub mod Headers
pub mod Words
pub mod Lines
pub mod Scripts
