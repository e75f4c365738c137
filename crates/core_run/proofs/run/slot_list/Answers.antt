use Rattle.std.proofs.Common.{◌≡◌, ◌+◌, sym, arith}
use Rattle.std.proofs.lemmas.List.FromFn.{map-range_with_len_more}
use Rattle.core_machine.specs.Slots.{census}
use Rattle.core_run.proofs.run.slot_list.Goals as goal

pub loop-r-preserved : goal.loop-r-preserved
loop-r-preserved c =
    let place : 0 + c.loop-r.r ≡ c.loop-r.r = omega arith in
    rw (c.in_ok-add.ensures.ok, c.loop-r.invariant, c.census.ensures)
    (sym (map-range_with_len_more (census c.args.core.now) 0 c.loop-r.r c.loop-r.r place))
