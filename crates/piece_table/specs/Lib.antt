pub mod PieceTable
pub mod Lends
pub mod Ranges
pub mod Thinning
pub mod HeldSpans
pub mod HeldLends
