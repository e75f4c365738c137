-- The script of five lines, run by the machine.
pub mod FiveEvents
pub mod Run
