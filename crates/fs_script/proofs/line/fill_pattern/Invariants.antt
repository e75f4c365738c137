use Rattle.std.proofs.Common.{◌≡◌, ℕ, ◌+◌, ◌<◌, get_or}
use Rattle.fs_script.specs.Payload.{pattern_byte}
use Rattle.fs_script.proofs.line.fill_pattern.Given as goal

abbrev pub invariant-loop-byte : goal.invariant-loop-byte
invariant-loop-byte l = record {
  place : l.place ≡ l.from + l.byte-index;
  filled : (k : ℕ) → k < l.byte-index → get_or l.out k 0 ≡ pattern_byte l.seed (l.from + k);
}
