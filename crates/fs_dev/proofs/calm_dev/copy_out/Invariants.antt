use Rattle.std.proofs.Common.{◌≡◌, map, Some, take, length}
use Rattle.fs_dev.proofs.calm_dev.copy_out.Given as goal

-- the first bytes are those of the first cells
abbrev pub invariant-loop-i : goal.invariant-loop-i
invariant-loop-i l = record {
  copied : map Some (take l.i l.out) ≡ take l.i l.cells;
  sized : length l.out ≡ length l.cells;
}
