use Rattle.fs_types.proofs.Common.{arith, ap, length, length-append, length-take-le, length-drop}
use Rattle.span_list.proofs.Positions.{ended_within_begun, length-rests-le}
use Rattle.span_list.proofs.places.gap_between.Goals as goal

pub returns-clause-order : goal.returns-clause-order
returns-clause-order c = grind (arith, ended_within_begun)

pub returns-clause-few : goal.returns-clause-few
returns-clause-few c =
    let few = length-rests-le c.args.at c.args.end c.args.frags.now c.requires.spans c.requires.rising in
    let left = ap length c.part_before-first.ensures.part in
    let right = ap length c.part_from-behind.ensures.part in
    grind (arith, ended_within_begun, length-append, length-take-le, length-drop)
