use Rattle.std.proofs.Common.{◌+◌, length, arith}
use Rattle.std.proofs.lemmas.List.FromFn.{fill_by_all}
use Rattle.fs_script.specs.Payload.{pattern_byte}
use Rattle.fs_script.proofs.line.fill_pattern.Goals as goal

pub returns : goal.returns
returns c =
    fill_by_all (λ k. pattern_byte c.args.seed (c.args.from + k)) c.loop-byte.out (length c.args.out.now) 0 (omega arith)
    (λ k below. c.loop-byte.invariant.filled k (omega arith))
