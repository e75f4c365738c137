pub mod ProgramLines
pub mod LeastPhase
pub mod Going
pub mod NextLines
pub mod Advanced
pub mod ProgramsKept
