use Rattle.std.proofs.Common.{arith, ◌++◌, take}
use Rattle.std.proofs.lemmas.Grind.{common_steps}
use Rattle.fs_dev.proofs.ToldLemmas.{bytes_then-portion}
use Rattle.fs_dev.proofs.reading.read_all.Goals as goal

pub returns-then-limit-len-clause-too_long : goal.returns-then-limit-len-clause-too_long
returns-then-limit-len-clause-too_long g c _ =
    let got = c.in_ok-n.ensures in (
      c.loop-bytes.bytes.items ++ take c.in_ok-n.n c.read.new.out,
      bytes_then-portion _ _ _ _ _ c.loop-bytes.invariant.taken got.given.next,
      grind (arith, common_steps, got.within, c.if-limit-len.true, c.len.ensures),
    )

pub returns-in_err-extend_from_slice-clause-want_took :
    goal.returns-in_err-extend_from_slice-clause-want_took
returns-in_err-extend_from_slice-clause-want_took g c _ =
    let got = c.in_ok-n.ensures in (
      c.loop-bytes.bytes.items ++ take c.in_ok-n.n c.read.new.out,
      bytes_then-portion _ _ _ _ _ c.loop-bytes.invariant.taken got.given.next,
      grind (arith, common_steps, got.within, c.if-limit-len.false, c.len.ensures),
    )
