use Rattle.fs_types.proofs.Common.{◌≡◌, ◌<◌, ◌^◌, ℕ, get_or, take, map}
use Rattle.piece_table.proofs.pushing.pieces_of.Given as goal

-- the pieces of those before the place, which are short
abbrev pub invariant-loop-h : goal.invariant-loop-h
invariant-loop-h g l = record {
  pieces : l.pieces.items ≡ map g.H.Hold.piece (take l.h-index l.holds);
  short : (k : ℕ) (d : g.row.H.Denot) → k < l.h-index → g.H.Hold.bytes (get_or l.holds k d) < 2 ^ 32;
}
