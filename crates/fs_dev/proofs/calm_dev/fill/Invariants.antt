use Rattle.std.proofs.Common.{◌≡◌, map, Some, take, length}
use Rattle.fs_dev.proofs.calm_dev.fill.Given as goal

-- the first cells have the first bytes
abbrev pub invariant-loop-i : goal.invariant-loop-i
invariant-loop-i l = record {
  filled : take l.i l.cells ≡ map Some (take l.i l.bytes);
  sized : length l.cells ≡ length l.bytes;
}
